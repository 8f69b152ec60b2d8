-- Laws of pictures: what is drawn can be read, what its signs say, and behind which lines it stands.
pub mod Drawable
pub mod Signs
pub mod Behind

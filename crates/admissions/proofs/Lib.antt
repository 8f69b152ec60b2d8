-- What holds of next admissions and of the stretches by which the code finds them.
pub mod Slots
pub mod GetsIn
pub mod LetInBelow
pub mod Even
pub mod Told

-- Laws of the curve's steps, and that it never passes the line of the pool.
pub mod Steps

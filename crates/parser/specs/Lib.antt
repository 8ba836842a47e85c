-- How the code keeps what has been read, and what it makes of a token and of a text.
pub mod Held
pub mod Reads

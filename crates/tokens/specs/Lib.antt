-- What the code's parts are stated by: the class of a byte, what a run is by its first bytes, and the number of a name.
pub mod Classes
pub mod Scanned
pub mod Numbered

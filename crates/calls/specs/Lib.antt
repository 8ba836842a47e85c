-- Lists of calls as numbers, and what playing one gives back.
pub mod Encoding
pub mod Played

-- Document 01, "Rule text", and the lookup of a name. Read in this order. The last two are the limits that a text keeps to, and
-- the first run of a part of one.
pub mod Tokens
pub mod Names
pub mod Grammar
pub mod Read
pub mod Lookup
pub mod Sound
pub mod FirstRun

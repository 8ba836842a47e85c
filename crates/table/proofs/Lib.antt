-- Laws, in reading order.

-- The table that is written in parts.
pub mod Written
-- The check of a lent table: it passes every state's tests exactly where it is the rules' table.
pub mod RowBeside
pub mod PassesRight
pub mod RightPasses
pub mod CheckLoop
pub mod Compared

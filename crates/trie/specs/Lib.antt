-- What the code holds while it compiles or checks a table: nodes, and the rows that are filled from them. What that leads to is
-- stated by the definitions of layout alone.
pub mod Nodes
pub mod Rows

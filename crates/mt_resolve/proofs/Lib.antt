pub mod Growth
pub mod Triples
pub mod BodiesMade
pub mod Nodes
pub mod StatementsMade
pub mod Makes
pub mod Sizes
pub mod Total
pub mod Depths
pub mod Captured
pub mod Empty
pub mod Blocks
pub mod Steps
pub mod Dollars
pub mod ShallowNodes
pub mod Shallow
mod FurtherExpressions
mod FurtherStatements

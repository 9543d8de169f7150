mod Expressions
mod Nodes
mod Statements
mod Tables

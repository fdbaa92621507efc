mod Inverting
mod DropRows
mod JoinRows
mod NestedRows
mod CongruentRows

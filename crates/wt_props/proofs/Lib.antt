mod Declared
mod Joining

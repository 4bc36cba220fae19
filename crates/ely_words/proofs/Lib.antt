mod Getters
mod Rows

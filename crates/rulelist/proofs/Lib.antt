mod Made
mod Faults

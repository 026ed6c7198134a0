pub mod Next
pub mod Far
pub mod Word
pub mod Sets

pub mod Looked
pub mod Marks
pub mod Apart
pub mod Chosen
pub mod Left
pub mod Concludes
pub mod Bytes
pub mod Any

pub mod Role

pub mod Algorithm2

pub mod Rose

pub mod Safely

pub mod Menus

pub mod ShownTexts

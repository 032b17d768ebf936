mod Examples
pub mod JsonForms
pub mod Parts
pub mod PlainTexts

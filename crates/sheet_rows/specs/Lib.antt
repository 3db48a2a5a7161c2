pub mod SheetRows

pub mod ShelfLine

pub mod ColumnSines

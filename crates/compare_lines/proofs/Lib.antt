pub mod RowsTold

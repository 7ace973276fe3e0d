pub mod ChangeTable

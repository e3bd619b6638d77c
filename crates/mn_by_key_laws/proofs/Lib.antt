pub mod ByKey

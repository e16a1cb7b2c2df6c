pub mod Seq

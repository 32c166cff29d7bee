pub mod SumLines

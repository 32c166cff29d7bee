pub mod PutLaws
pub mod PrintLaws
pub mod CompareLaws
pub mod ReadLaws
pub mod FieldsRead
pub mod EndRead

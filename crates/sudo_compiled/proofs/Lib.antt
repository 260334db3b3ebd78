pub mod WrittenLists
pub mod Answering
pub mod Taking
pub mod Covering
pub mod Everything

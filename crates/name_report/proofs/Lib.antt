pub mod PageLemmas
pub mod OrderLemmas
pub mod TextLemmas
pub mod ReportLemmas

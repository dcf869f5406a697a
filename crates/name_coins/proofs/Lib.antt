pub mod MeasureLemmas

pub mod DimensionLemmas

pub mod Compact
pub mod Settings
pub mod Looks
pub mod Coloring
pub mod Lending
pub mod Equality
pub use Rattle.grid_config_values.specs.Entities
pub use Rattle.grid_config_values.specs.Glyphs
pub use Rattle.grid_config_values.specs.Settings as Maps
pub use Rattle.grid_config_values.specs.Spans.Rectangles
pub use Rattle.grid_config_values.specs.Spans.Spans
pub use Rattle.grid_config_values.specs.Spans.Owners
pub use Rattle.grid_config.specs.Ansi.Colors
pub use Rattle.grid_config.specs.Ansi.Closing
pub mod Copies
pub mod Ansi

pub mod PaddedStyles

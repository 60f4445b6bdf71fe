pub mod EachConfined

pub mod TokenLaws
pub mod Parts
pub mod ExprLaws
pub mod Nested
pub mod Expressions
pub mod LiteralLaws
pub mod StatementLaws
pub mod FileLaws

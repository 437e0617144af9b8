pub mod TableGrammar

pub mod Growth
pub mod NamedFiles
pub mod Pieces
pub mod PieceNumbers
pub mod ReadPieces
pub mod ReadText

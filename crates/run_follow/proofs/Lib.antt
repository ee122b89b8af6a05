pub mod BesideLemmas
mod PacketLemmas
mod ExportLemmas

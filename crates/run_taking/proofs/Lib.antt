mod PacketLemmas
mod ShownLemmas
mod EndLemmas
mod ServeLemmas
mod StandLemmas
mod StartLemmas
mod LawLemmas

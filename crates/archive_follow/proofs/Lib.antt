mod TakenLemmas
mod RefusalLemmas
mod BatchLemmas
mod PutLemmas
mod FoundLemmas

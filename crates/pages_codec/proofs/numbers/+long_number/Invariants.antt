use Rattle.pages_codec.proofs.numbers.+long_number.Given as goal

abbrev pub decreases-long_number : goal.decreases-long_number
decreases-long_number l = l.most

use Rattle.narrowing.proofs.tree.+refute_in.Given as goal

abbrev pub decreases-refute_in : goal.decreases-refute_in
decreases-refute_in l = l.depth

use Rattle.py_parser.proofs.parsing.emptied.Given as goal

abbrev pub decreases-loop-token : goal.decreases-loop-token
decreases-loop-token l = goal.left-loop-token l

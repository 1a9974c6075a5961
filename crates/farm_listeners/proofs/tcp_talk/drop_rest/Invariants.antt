-- The measure of the loop of `drop_rest`.
use Rattle.farm_listeners.proofs.tcp_talk.drop_rest.Given as goal

abbrev pub decreases-loop-left : goal.decreases-loop-left
decreases-loop-left g l = l.left

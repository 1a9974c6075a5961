-- Kinds of events, with their ports and their connections.
use Rattle.std.proofs.Common.{◌≡◌, ℕ, Bool, List, [], ◌∷◌, ◌++◌, refl, ap, append-nil}
use Rattle.std.specs.Prelude.{map}
use Rattle.farm_listeners.specs.Listeners.{Listened, Came, Left, Ended, left_of, ports_of}
use Rattle.farm_listeners.specs.Objects.{TalkState, known_talk}
use Rattle.farm_listeners.specs.Visits.{InStep, events_of}
use Rattle.farm_listeners.specs.declared.kept_events.Kind.{Kind}
use Rattle.farm_listeners.specs.declared.kept_events.Kind.TheVariants as kinds

-- what is in step stays so with more that is in step
in_step_more : (front back : List Kind) (ports others : List ℕ) (talks rest : List TalkState) →
    InStep front ports talks → InStep back others rest → InStep (front ++ back) (ports ++ others) (talks ++ rest)
in_step_more [] back [] others [] rest step then = then
in_step_more [] back [] others (talk ∷ talks) rest step then = absurd step
in_step_more [] back (port ∷ ports) others talks rest step then = absurd step
in_step_more (kinds.Listened failed ∷ front) back [] others talks rest step then = absurd step
in_step_more (kinds.Listened failed ∷ front) back (port ∷ ports) others talks rest step then =
    in_step_more front back ports others talks rest step then
in_step_more (kinds.Came ∷ front) back ports others talks rest step then =
    in_step_more front back ports others talks rest step then
in_step_more (kinds.Left ∷ front) back ports others [] rest step then = absurd step
in_step_more (kinds.Left ∷ front) back ports others (talk ∷ talks) rest step then =
    in_step_more front back ports others talks rest step then
in_step_more (kinds.Ended ∷ front) back ports others talks rest step then =
    in_step_more front back ports others talks rest step then

-- the events of what is in step, and then of more, are those of both
events_of-append : (front back : List Kind) (ports others : List ℕ) (talks rest : List TalkState) →
    InStep front ports talks →
    events_of (front ++ back) (ports ++ others) (talks ++ rest) ≡ events_of front ports talks ++ events_of back others rest
unfolding events_of
events_of-append [] back [] others [] rest step = refl
events_of-append [] back [] others (talk ∷ talks) rest step = absurd step
events_of-append [] back (port ∷ ports) others talks rest step = absurd step
events_of-append (kinds.Listened failed ∷ front) back [] others talks rest step = absurd step
events_of-append (kinds.Listened failed ∷ front) back (port ∷ ports) others talks rest step =
    ap (λ events. Listened port failed ∷ events) (events_of-append front back ports others talks rest step)
events_of-append (kinds.Came ∷ front) back ports others talks rest step =
    ap (λ events. Came ∷ events) (events_of-append front back ports others talks rest step)
events_of-append (kinds.Left ∷ front) back ports others [] rest step = absurd step
events_of-append (kinds.Left ∷ front) back ports others (talk ∷ talks) rest step =
    ap (λ events. Left (known_talk talk) ∷ events) (events_of-append front back ports others talks rest step)
events_of-append (kinds.Ended ∷ front) back ports others talks rest step =
    ap (λ events. Ended ∷ events) (events_of-append front back ports others talks rest step)

-- the ports of the events of what is in step
pub ports_of-events_of : (front : List Kind) (ports : List ℕ) (talks : List TalkState) → InStep front ports talks →
    ports_of (events_of front ports talks) ≡ ports
unfolding events_of
ports_of-events_of [] [] [] step = refl
ports_of-events_of [] [] (talk ∷ talks) step = absurd step
ports_of-events_of [] (port ∷ ports) talks step = absurd step
ports_of-events_of (kinds.Listened failed ∷ front) [] talks step = absurd step
ports_of-events_of (kinds.Listened failed ∷ front) (port ∷ ports) talks step =
    ap (λ rest. port ∷ rest) (ports_of-events_of front ports talks step)
ports_of-events_of (kinds.Came ∷ front) ports talks step = ports_of-events_of front ports talks step
ports_of-events_of (kinds.Left ∷ front) ports [] step = absurd step
ports_of-events_of (kinds.Left ∷ front) ports (talk ∷ talks) step = ports_of-events_of front ports talks step
ports_of-events_of (kinds.Ended ∷ front) ports talks step = ports_of-events_of front ports talks step

-- the connections of the events of what is in step
pub left_of-events_of : (front : List Kind) (ports : List ℕ) (talks : List TalkState) → InStep front ports talks →
    left_of (events_of front ports talks) ≡ map known_talk talks
unfolding events_of
left_of-events_of [] [] [] step = refl
left_of-events_of [] [] (talk ∷ talks) step = absurd step
left_of-events_of [] (port ∷ ports) talks step = absurd step
left_of-events_of (kinds.Listened failed ∷ front) [] talks step = absurd step
left_of-events_of (kinds.Listened failed ∷ front) (port ∷ ports) talks step = left_of-events_of front ports talks step
left_of-events_of (kinds.Came ∷ front) ports talks step = left_of-events_of front ports talks step
left_of-events_of (kinds.Left ∷ front) ports [] step = absurd step
left_of-events_of (kinds.Left ∷ front) ports (talk ∷ talks) step =
    ap (λ rest. known_talk talk ∷ rest) (left_of-events_of front ports talks step)
left_of-events_of (kinds.Ended ∷ front) ports talks step = left_of-events_of front ports talks step

module _ (front : List Kind) (ports : List ℕ) (talks : List TalkState) (step : InStep front ports talks) where
  -- one listen more
  pub in_step-listened : (failed : Bool) (port : ℕ) → InStep (front ++ kinds.Listened failed ∷ []) (ports ++ port ∷ []) talks
  in_step-listened failed port =
      simp append-nil at (in_step_more front (kinds.Listened failed ∷ []) ports (port ∷ []) talks [] step tt)

  pub events_of-listened : (failed : Bool) (port : ℕ) →
      events_of (front ++ kinds.Listened failed ∷ []) (ports ++ port ∷ []) talks ≡ events_of front ports talks ++ Listened port failed ∷ []
  unfolding events_of
  events_of-listened failed port =
      simp append-nil at (events_of-append front (kinds.Listened failed ∷ []) ports (port ∷ []) talks [] step)

  -- one connection more that came
  pub in_step-came : InStep (front ++ kinds.Came ∷ []) ports talks
  in_step-came = simp append-nil at (in_step_more front (kinds.Came ∷ []) ports [] talks [] step tt)

  pub events_of-came : events_of (front ++ kinds.Came ∷ []) ports talks ≡ events_of front ports talks ++ Came ∷ []
  unfolding events_of
  events_of-came = simp append-nil at (events_of-append front (kinds.Came ∷ []) ports [] talks [] step)

  -- one connection more that was handed back
  pub in_step-left : (talk : TalkState) → InStep (front ++ kinds.Left ∷ []) ports (talks ++ talk ∷ [])
  in_step-left talk = simp append-nil at (in_step_more front (kinds.Left ∷ []) ports [] talks (talk ∷ []) step tt)

  pub events_of-left : (talk : TalkState) →
      events_of (front ++ kinds.Left ∷ []) ports (talks ++ talk ∷ []) ≡ events_of front ports talks ++ Left (known_talk talk) ∷ []
  unfolding events_of
  events_of-left talk = simp append-nil at (events_of-append front (kinds.Left ∷ []) ports [] talks (talk ∷ []) step)

  -- one end more
  pub in_step-ended : InStep (front ++ kinds.Ended ∷ []) ports talks
  in_step-ended = simp append-nil at (in_step_more front (kinds.Ended ∷ []) ports [] talks [] step tt)

  pub events_of-ended : events_of (front ++ kinds.Ended ∷ []) ports talks ≡ events_of front ports talks ++ Ended ∷ []
  unfolding events_of
  events_of-ended = simp append-nil at (events_of-append front (kinds.Ended ∷ []) ports [] talks [] step)

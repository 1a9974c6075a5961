-- Answers to the open goals of `run_post`.
use Rattle.std.proofs.Common.{rules, ◌≡◌, ◌∙◌, ℕ, List, [], ◌∷◌, ◌++◌, sym, ap, subst, arith}
use Rattle.farm_base.specs.Counts.{Rose, count_of}
use Rattle.farm_history.specs.History.{last_place}
use Rattle.farm_listeners.specs.Listeners.{AddsAccepted, AddsEvents, Came, connection_of}
use Rattle.farm_listeners.specs.declared.listeners.Accepted.{Accepted}
use Rattle.desk_posts.specs.Conversations.{Attended, Looked, Step}
use Rattle.desk_posts.specs.declared.posts.PostEnd.TheVariants as how
use Rattle.desk_posts.proofs.Conversing.{Serving, converses, goes_on, listens, looks_on, refuses, serves_one, stops}
use Rattle.desk_posts.proofs.posts.run_post.Goals as goal
use Rattle.desk_posts.proofs.posts.run_post.Goals.{in-Ok-Conn, in-Ok-Idle}

pub returns-in-Err-clause-conversation : goal.returns-in-Err-clause-conversation
returns-in-Err-clause-conversation g c =
    let follow = g.A.DeskAccess.may_follow in
    let laws = c.access_laws.ensures.followers in
    refuses follow laws (g.C.Clock.may_give c.args.clock.now) g.A.DeskAccess.limit c.args.port (g.L.Listener.events c.args.listener.now)
    (g.L.Listener.events c.listen.new.self) (count_of g.L.Listener.faults c.args.listener.now c.listen.new.self) (g.A.DeskAccess.state c.args.access.now)
    c.requires.just_opened c.in-Err.ensures.event c.in-Err.ensures.counts.failed

pub loop-init : goal.loop-init
loop-init g c =
    let follow = g.A.DeskAccess.may_follow in
    let laws = c.access_laws.ensures.followers in (
      search rules,
      search rules,
      listens follow laws (g.C.Clock.may_give c.args.clock.now) g.A.DeskAccess.limit c.args.port (g.L.Listener.events c.args.listener.now)
          (g.L.Listener.events c.listen.new.self) (g.A.DeskAccess.state c.args.access.now) c.in_default.ensures.event c.requires.just_opened,
      c.in_default.ensures.counts.quiet,
      c.access_laws.ensures.keeps_itself c.args.access.now,
    )

pub returns-in-Ok-End-clause-conversation : goal.returns-in-Ok-End-clause-conversation
returns-in-Ok-End-clause-conversation g c =
    let running = c.loop.invariant.2 in
    converses g.A.DeskAccess.may_follow (g.C.Clock.may_give c.args.clock.now) g.A.DeskAccess.limit c.args.port (g.L.Listener.events c.args.listener.now)
    (g.L.Listener.events c.loop.listener) (g.L.Listener.events c.accept.new.self) (count_of g.L.Listener.faults c.args.listener.now c.accept.new.self)
    (g.A.DeskAccess.state c.args.access.now) (g.A.DeskAccess.state c.loop.access) how.Ended running.steps running.serving
    (subst (λ (accepted : Accepted g.row.L-Conn.Denot). AddsAccepted (g.L.Listener.events c.loop.listener) (g.L.Listener.events c.accept.new.self) accepted)
    c.in-Ok-End.field-0-is c.in-Ok-End.ensures.event)
    (running.no_stop, c.in-Ok-End.ensures.counts.quiet ∙ c.loop.invariant.3)

pub returns-in-Ok-End-clause-keeps : goal.returns-in-Ok-End-clause-keeps
returns-in-Ok-End-clause-keeps g c = c.loop.invariant.4

pub returns-in-Ok-End-clause-never_falls : goal.returns-in-Ok-End-clause-never_falls
returns-in-Ok-End-clause-never_falls g c =
    let same = c.in-Ok-End.ensures.counts.quiet ∙ c.loop.invariant.3 in
    omega (arith, same)

pub returns-in-Err-accept-clause-conversation : goal.returns-in-Err-accept-clause-conversation
returns-in-Err-accept-clause-conversation g c =
    let running = c.loop.invariant.2 in
    converses g.A.DeskAccess.may_follow (g.C.Clock.may_give c.args.clock.now) g.A.DeskAccess.limit c.args.port (g.L.Listener.events c.args.listener.now)
    (g.L.Listener.events c.loop.listener) (g.L.Listener.events c.accept.new.self) (count_of g.L.Listener.faults c.args.listener.now c.accept.new.self)
    (g.A.DeskAccess.state c.args.access.now) (g.A.DeskAccess.state c.loop.access) how.ListenerFailed running.steps running.serving
    c.in-Err-accept.ensures.event
    (running.no_stop, subst (λ (before : ℕ). Rose before (g.L.Listener.faults c.accept.new.self)) c.loop.invariant.3 c.in-Err-accept.ensures.counts.failed)

pub returns-in-Err-accept-clause-keeps : goal.returns-in-Err-accept-clause-keeps
returns-in-Err-accept-clause-keeps g c = c.loop.invariant.4

pub returns-in-Err-accept-clause-never_falls : goal.returns-in-Err-accept-clause-never_falls
returns-in-Err-accept-clause-never_falls g c =
    let same = c.loop.invariant.3 in
    let later = c.in-Err-accept.ensures.counts.never_falls in
    omega (arith, same, later)

pub returns-then-stopped-clause-conversation : goal.returns-then-stopped-clause-conversation
returns-then-stopped-clause-conversation g c =
    let follow = g.A.DeskAccess.may_follow in
    let laws = c.access_laws.ensures.followers in
    let give = g.C.Clock.may_give c.args.clock.now in
    let limit = g.A.DeskAccess.limit in
    let events = g.L.Listener.events in
    let faults = g.L.Listener.faults in
    let state = g.A.DeskAccess.state in
    let first = events c.args.listener.now in
    let old = state c.args.access.now in
    let running = c.loop.invariant.2 in
    let after : (steps : List Step) × Serving follow give limit c.args.port first (events c.match-accept-2.listener) old (state c.match-accept-2.access) steps
    × (faults c.match-accept-2.listener ≡ faults c.args.listener.now) =
    elim c.match-accept-2.branch [
      | in-Ok-Conn w ↦
          (let conn = connection_of g.L.Conn.Port.stream g.L.Conn.Port.held g.L.Conn.Port.faults w.serve_connection.new.conn in
          let came : AddsEvents (events c.loop.listener) (events c.accept.new.self) (Came ∷ []) = search rules in
          let quiet : faults c.accept.new.self ≡ faults c.loop.listener = search rules in (
            running.steps ++ Attended (record { conn = conn; acts = w.serve_connection.ensures.served.acts }) ∷ [],
            subst (λ (access : g.row.A.Denot). Serving follow give limit c.args.port first (events c.match-accept-2.listener) old (state access)
                (running.steps ++ Attended (record { conn = conn; acts = w.serve_connection.ensures.served.acts }) ∷ [])) (sym w.access-is)
                (subst (λ (listener : g.row.L.Denot). Serving follow give limit c.args.port first (events listener) old (state w.serve_connection.new.access)
                (running.steps ++ Attended (record { conn = conn; acts = w.serve_connection.ensures.served.acts }) ∷ [])) (sym w.listener-is)
                (serves_one follow laws give limit c.args.port first (events c.loop.listener) (events c.accept.new.self) (events w.done.new.self) old
                (state c.loop.access) (state w.serve_connection.new.access) conn running came w.serve_connection.ensures.served w.done.ensures.event)),
            ap faults w.listener-is ∙ w.done.ensures.faults ∙ quiet ∙ c.loop.invariant.3,
          ))
      | in-Ok-Idle w ↦
          (let idle : AddsEvents (events c.loop.listener) (events c.accept.new.self) [] = search rules in
          let quiet : faults c.accept.new.self ≡ faults c.loop.listener = search rules in (
            running.steps ++ Looked (last_place (state w.look.new.self).seen) ∷ [],
            subst (λ (access : g.row.A.Denot). Serving follow give limit c.args.port first (events c.match-accept-2.listener) old (state access)
                (running.steps ++ Looked (last_place (state w.look.new.self).seen) ∷ []))
                (sym w.access-is)
                (subst (λ (listener : g.row.L.Denot). Serving follow give limit c.args.port first (events listener) old (state w.look.new.self)
                (running.steps ++ Looked (last_place (state w.look.new.self).seen) ∷ []))
                (sym w.listener-is)
                (looks_on follow laws give limit c.args.port first (events c.loop.listener) (events c.accept.new.self) old
                (state c.loop.access) (state w.look.new.self) running idle w.look.ensures.looked)),
            ap faults w.listener-is ∙ quiet ∙ c.loop.invariant.3,
          ))
    ] in
    stops follow give limit c.args.port first (events c.match-accept-2.listener) (count_of faults c.args.listener.now c.match-accept-2.listener) old
    (state c.match-accept-2.access) after.0 after.1 (sym c.stopped.ensures.stopped ∙ c.if-stopped.true) after.2

pub returns-then-stopped-clause-keeps : goal.returns-then-stopped-clause-keeps
returns-then-stopped-clause-keeps g c = elim c.match-accept-2.branch [
  | in-Ok-Conn w ↦ subst (λ (access : g.row.A.Denot). g.A.DeskAccess.keeps c.args.access.now access) (sym w.access-is)
      (c.access_laws.ensures.keeps_on c.args.access.now c.loop.access w.serve_connection.new.access c.loop.invariant.4 w.serve_connection.ensures.keeps)
  | in-Ok-Idle w ↦ subst (λ (access : g.row.A.Denot). g.A.DeskAccess.keeps c.args.access.now access) (sym w.access-is)
      (c.access_laws.ensures.keeps_on c.args.access.now c.loop.access w.look.new.self c.loop.invariant.4 w.look.ensures.keeps)
]

pub returns-then-stopped-clause-never_falls : goal.returns-then-stopped-clause-never_falls
returns-then-stopped-clause-never_falls g c =
    let before = c.loop.invariant.3 in
    let accepts = c.accept.ensures.counts.never_falls in
    elim c.match-accept-2.branch [
      | in-Ok-Conn w ↦ (let after = ap g.L.Listener.faults w.listener-is ∙ w.done.ensures.faults in omega (arith, before, accepts, after))
      | in-Ok-Idle w ↦ (let after = ap g.L.Listener.faults w.listener-is in omega (arith, before, accepts, after))
    ]

pub loop-preserved : goal.loop-preserved
loop-preserved g c =
    let follow = g.A.DeskAccess.may_follow in
    let laws = c.access_laws.ensures.followers in
    let give = g.C.Clock.may_give c.args.clock.now in
    let limit = g.A.DeskAccess.limit in
    let events = g.L.Listener.events in
    let faults = g.L.Listener.faults in
    let state = g.A.DeskAccess.state in
    let first = events c.args.listener.now in
    let old = state c.args.access.now in
    let running = c.loop.invariant.2 in
    let after : (steps : List Step) × Serving follow give limit c.args.port first (events c.match-accept-2.listener) old (state c.match-accept-2.access) steps
    × (faults c.match-accept-2.listener ≡ faults c.args.listener.now) =
    elim c.match-accept-2.branch [
      | in-Ok-Conn w ↦
          (let conn = connection_of g.L.Conn.Port.stream g.L.Conn.Port.held g.L.Conn.Port.faults w.serve_connection.new.conn in
          let came : AddsEvents (events c.loop.listener) (events c.accept.new.self) (Came ∷ []) = search rules in
          let quiet : faults c.accept.new.self ≡ faults c.loop.listener = search rules in (
            running.steps ++ Attended (record { conn = conn; acts = w.serve_connection.ensures.served.acts }) ∷ [],
            subst (λ (access : g.row.A.Denot). Serving follow give limit c.args.port first (events c.match-accept-2.listener) old (state access)
                (running.steps ++ Attended (record { conn = conn; acts = w.serve_connection.ensures.served.acts }) ∷ [])) (sym w.access-is)
                (subst (λ (listener : g.row.L.Denot). Serving follow give limit c.args.port first (events listener) old (state w.serve_connection.new.access)
                (running.steps ++ Attended (record { conn = conn; acts = w.serve_connection.ensures.served.acts }) ∷ [])) (sym w.listener-is)
                (serves_one follow laws give limit c.args.port first (events c.loop.listener) (events c.accept.new.self) (events w.done.new.self) old
                (state c.loop.access) (state w.serve_connection.new.access) conn running came w.serve_connection.ensures.served w.done.ensures.event)),
            ap faults w.listener-is ∙ w.done.ensures.faults ∙ quiet ∙ c.loop.invariant.3,
          ))
      | in-Ok-Idle w ↦
          (let idle : AddsEvents (events c.loop.listener) (events c.accept.new.self) [] = search rules in
          let quiet : faults c.accept.new.self ≡ faults c.loop.listener = search rules in (
            running.steps ++ Looked (last_place (state w.look.new.self).seen) ∷ [],
            subst (λ (access : g.row.A.Denot). Serving follow give limit c.args.port first (events c.match-accept-2.listener) old (state access)
                (running.steps ++ Looked (last_place (state w.look.new.self).seen) ∷ []))
                (sym w.access-is)
                (subst (λ (listener : g.row.L.Denot). Serving follow give limit c.args.port first (events listener) old (state w.look.new.self)
                (running.steps ++ Looked (last_place (state w.look.new.self).seen) ∷ []))
                (sym w.listener-is)
                (looks_on follow laws give limit c.args.port first (events c.loop.listener) (events c.accept.new.self) old
                (state c.loop.access) (state w.look.new.self) running idle w.look.ensures.looked)),
            ap faults w.listener-is ∙ quiet ∙ c.loop.invariant.3,
          ))
    ] in
    let keeps : g.A.DeskAccess.keeps c.args.access.now c.match-accept-2.access =
    elim c.match-accept-2.branch [
      | in-Ok-Conn w ↦ subst (λ (access : g.row.A.Denot). g.A.DeskAccess.keeps c.args.access.now access) (sym w.access-is)
          (c.access_laws.ensures.keeps_on c.args.access.now c.loop.access w.serve_connection.new.access c.loop.invariant.4 w.serve_connection.ensures.keeps)
      | in-Ok-Idle w ↦ subst (λ (access : g.row.A.Denot). g.A.DeskAccess.keeps c.args.access.now access) (sym w.access-is)
          (c.access_laws.ensures.keeps_on c.args.access.now c.loop.access w.look.new.self c.loop.invariant.4 w.look.ensures.keeps)
    ] in (
      search rules,
      search rules,
      goes_on follow give limit c.args.port first (events c.match-accept-2.listener) old (state c.match-accept-2.access) after.0 after.1
          (sym c.stopped.ensures.stopped ∙ c.if-stopped.false),
      after.2,
      keeps,
    )

-- Answers to the open goals of `serve_connection`.
use Rattle.std.proofs.Common.{◌≡◌, ◌∙◌, ℕ, ◌+◌, true, false, inl, inr, List, drop, None, Some, Option, Ok, Result, sym, ap, subst, arith}
use Rattle.std.specs.Prelude.{OnErr, OnOk}
use Rattle.std.specs.Result.{is_err}
use Rattle.farm_base.specs.Counts.{Rose}
use Rattle.farm_listeners.specs.Listeners.{connection_of}
use Rattle.farm_ports.specs.declared.ports.Failed.{Failed}
use Rattle.http_requests.specs.declared.heard.Heard.{Heard}
use Rattle.desk_posts.specs.Calls.{HearsNext}
use Rattle.desk_posts.specs.Exchanges.{ends_after, size_of}
use Rattle.desk_posts.specs.Limits.{most_requests}
use Rattle.desk_posts.proofs.Connections.{IsOpen, end_of_input, has_failed, no_take, opens}
use Rattle.desk_posts.proofs.Meeting.{cut_off, ends, ends_full, if_failed, if_fine, meets, put_to_prefix, put_whole, stays_open}
use Rattle.desk_posts.proofs.serving.serve_connection.Goals as goal
use Rattle.desk_posts.proofs.serving.serve_connection.Goals.{then-is_err-via-then-is_err, then-is_err-via-else-is_err+then-last, then-is_err-via-else-is_err+else-last+then-stopped}

pub loop-init : goal.loop-init
loop-init g c =
    let follow = g.A.DeskAccess.may_follow in
    let laws = c.access_laws.ensures.followers in
    let give = g.C.Clock.may_give c.args.clock.now in
    let conn = connection_of g.P.Port.stream g.P.Port.held g.P.Port.faults c.args.conn.now in
    let state = g.A.DeskAccess.state c.args.access.now in
    record {
      stands = subst (λ (room : List ℕ). IsOpen follow give g.A.DeskAccess.limit conn room state state 0) (sym c.clear.ensures.in_hand)
          (opens follow laws give g.A.DeskAccess.limit conn state c.requires.fresh);
      keeps = c.access_laws.ensures.keeps_itself c.args.access.now;
    }

pub returns-in_default-clause-served : goal.returns-in_default-clause-served
returns-in_default-clause-served g c =
    let before = connection_of g.P.Port.stream g.P.Port.held g.P.Port.faults c.loop.conn in
    let after = connection_of g.P.Port.stream g.P.Port.held g.P.Port.faults c.next_request.new.source in
    let is : c.next_request.result ≡ Ok None = cc in
    end_of_input {E = Failed} g.A.DeskAccess.may_follow (g.C.Clock.may_give c.args.clock.now) g.A.DeskAccess.limit before after c.loop.room c.next_request.new.room
    (g.A.DeskAccess.state c.args.access.now) (g.A.DeskAccess.state c.loop.access) c.loop.counter c.loop.invariant.stands c.loop-test.true
    (subst (λ (result : Result (Option Heard) Failed). HearsNext before.stream after.stream c.loop.room c.next_request.new.room result) is c.next_request.ensures.hears)
    c.next_request.ensures.held
    (subst (λ (result : Result (Option Heard) Failed). OnOk result (after.faults ≡ before.faults)) is c.next_request.ensures.counts.quiet)

pub returns-in_default-clause-keeps : goal.returns-in_default-clause-keeps
returns-in_default-clause-keeps g c = c.loop.invariant.keeps

pub returns-in_default-2-clause-served : goal.returns-in_default-2-clause-served
returns-in_default-2-clause-served g c =
    let before = connection_of g.P.Port.stream g.P.Port.held g.P.Port.faults c.loop.conn in
    let after = connection_of g.P.Port.stream g.P.Port.held g.P.Port.faults c.next_request.new.source in
    no_take {E = Failed} g.A.DeskAccess.may_follow (g.C.Clock.may_give c.args.clock.now) g.A.DeskAccess.limit before after c.loop.room c.next_request.new.room
    (g.A.DeskAccess.state c.args.access.now) (g.A.DeskAccess.state c.loop.access) c.loop.counter c.in_default.field-0 c.loop.invariant.stands c.loop-test.true
    (subst (λ (result : Result (Option Heard) Failed). HearsNext before.stream after.stream c.loop.room c.next_request.new.room result) c.in_default.is
    c.next_request.ensures.hears)
    c.next_request.ensures.held
    (subst (λ (result : Result (Option Heard) Failed). OnErr result (Rose before.faults after.faults)) c.in_default.is c.next_request.ensures.counts.failed)

pub returns-in_default-2-clause-keeps : goal.returns-in_default-2-clause-keeps
returns-in_default-2-clause-keeps g c = c.loop.invariant.keeps

pub returns-then-is_err-clause-served : goal.returns-then-is_err-clause-served
returns-then-is_err-clause-served g c =
    let follow = g.A.DeskAccess.may_follow in
    let laws = c.access_laws.ensures.followers in
    let give = g.C.Clock.may_give c.args.clock.now in
    let limit = g.A.DeskAccess.limit in
    let before = connection_of g.P.Port.stream g.P.Port.held g.P.Port.faults c.loop.conn in
    let heard_on = connection_of g.P.Port.stream g.P.Port.held g.P.Port.faults c.next_request.new.source in
    let after = connection_of g.P.Port.stream g.P.Port.held g.P.Port.faults c.exchange.new.conn in
    let old = g.A.DeskAccess.state c.args.access.now in
    let middle = g.A.DeskAccess.state c.loop.access in
    let new = g.A.DeskAccess.state c.exchange.new.access in
    let heard = c.in-Ok-Some.heard in
    let one = c.exchange.ensures.answered in
    let is : c.next_request.result ≡ Ok (Some heard) = cc in
    let hears = subst (λ (result : Result (Option Heard) Failed). HearsNext before.stream heard_on.stream c.loop.room c.next_request.new.room result) is
    c.next_request.ensures.hears in
    let quiet = subst (λ (result : Result (Option Heard) Failed). OnOk result (heard_on.faults ≡ before.faults)) is c.next_request.ensures.counts.quiet in
    let zero : heard_on.faults ≡ 0 = quiet ∙ c.loop.invariant.stands.no_fault in
    let met = meets {F = Failed} follow laws give limit before heard_on after c.loop.room c.next_request.new.room old middle new c.loop.counter heard c.exchange.result
    c.loop.invariant.stands hears c.next_request.ensures.held one c.exchange.ensures.stream in
    let left = drop (size_of heard) c.next_request.new.room in
    elim c.then-is_err.branch [
      | then-is_err-via-then-is_err w ↦
          (let failed : is_err c.exchange.result ≡ true = sym c.is_err.ensures.value ∙ w.if-is_err.true in
          let part = put_to_prefix c.exchange.result heard_on.held after.held one.exchange failed one.put in
          cut_off follow give limit after left old new c.loop.counter heard_on.held one.exchange part.0 met c.loop-test.true part.1
          (has_failed heard_on.faults after.faults zero (if_failed {P = Rose heard_on.faults after.faults} c.exchange.result failed c.exchange.ensures.counts.failed)))
      | then-is_err-via-else-is_err+then-last w ↦
          (let fine : is_err c.exchange.result ≡ false = sym c.is_err.ensures.value ∙ w.if-is_err.false in
          ends follow give limit after left old new c.loop.counter heard_on.held one.exchange met c.loop-test.true
          (put_whole c.exchange.result heard_on.held after.held one.exchange fine one.put)
          (if_fine {P = after.faults ≡ heard_on.faults} c.exchange.result fine c.exchange.ensures.counts.quiet ∙ zero)
          (inl (ap ends_after one.heard_is ∙ sym c.ends_after-last.ensures.last ∙ w.if-last.true)))
      | then-is_err-via-else-is_err+else-last+then-stopped w ↦
          (let fine : is_err c.exchange.result ≡ false = sym c.is_err.ensures.value ∙ w.if-is_err.false in
          ends follow give limit after left old new c.loop.counter heard_on.held one.exchange met c.loop-test.true
          (put_whole c.exchange.result heard_on.held after.held one.exchange fine one.put)
          (if_fine {P = after.faults ≡ heard_on.faults} c.exchange.result fine c.exchange.ensures.counts.quiet ∙ zero)
          (inr (sym w.stopped.ensures.stopped ∙ w.if-stopped.true)))
    ]

pub returns-then-is_err-clause-keeps : goal.returns-then-is_err-clause-keeps
returns-then-is_err-clause-keeps g c =
    c.access_laws.ensures.keeps_on c.args.access.now c.loop.access c.exchange.new.access c.loop.invariant.keeps c.exchange.ensures.keeps

pub loop-preserved : goal.loop-preserved
loop-preserved g c =
    let follow = g.A.DeskAccess.may_follow in
    let laws = c.access_laws.ensures.followers in
    let give = g.C.Clock.may_give c.args.clock.now in
    let limit = g.A.DeskAccess.limit in
    let before = connection_of g.P.Port.stream g.P.Port.held g.P.Port.faults c.loop.conn in
    let heard_on = connection_of g.P.Port.stream g.P.Port.held g.P.Port.faults c.next_request.new.source in
    let after = connection_of g.P.Port.stream g.P.Port.held g.P.Port.faults c.exchange.new.conn in
    let old = g.A.DeskAccess.state c.args.access.now in
    let middle = g.A.DeskAccess.state c.loop.access in
    let new = g.A.DeskAccess.state c.exchange.new.access in
    let heard = c.in-Ok-Some.heard in
    let one = c.exchange.ensures.answered in
    let is : c.next_request.result ≡ Ok (Some heard) = cc in
    let hears = subst (λ (result : Result (Option Heard) Failed). HearsNext before.stream heard_on.stream c.loop.room c.next_request.new.room result) is
    c.next_request.ensures.hears in
    let quiet = subst (λ (result : Result (Option Heard) Failed). OnOk result (heard_on.faults ≡ before.faults)) is c.next_request.ensures.counts.quiet in
    let met = meets {F = Failed} follow laws give limit before heard_on after c.loop.room c.next_request.new.room old middle new c.loop.counter heard c.exchange.result
    c.loop.invariant.stands hears c.next_request.ensures.held one c.exchange.ensures.stream in
    let fine : is_err c.exchange.result ≡ false = sym c.is_err.ensures.value ∙ c.if-is_err.false in
    record {
      stands = subst (λ (room : List ℕ). IsOpen follow give limit after room old new (c.loop.counter + 1)) (sym c.exchange.ensures.in_hand)
          (stays_open follow give limit after (drop (size_of heard) c.next_request.new.room) old new c.loop.counter heard_on.held one.exchange met
          (put_whole c.exchange.result heard_on.held after.held one.exchange fine one.put)
          (if_fine {P = after.faults ≡ heard_on.faults} c.exchange.result fine c.exchange.ensures.counts.quiet ∙ quiet ∙ c.loop.invariant.stands.no_fault)
          (ap ends_after one.heard_is ∙ sym c.ends_after-last.ensures.last ∙ c.if-last.false)
          (sym c.stopped.ensures.stopped ∙ c.if-stopped.false));
      keeps = c.access_laws.ensures.keeps_on c.args.access.now c.loop.access c.exchange.new.access c.loop.invariant.keeps c.exchange.ensures.keeps;
    }

pub returns-clause-served : goal.returns-clause-served
returns-clause-served g c =
    let full : c.loop.counter ≡ most_requests = omega (arith, c.loop-test.false, c.loop.auto.counter-end) in
    ends_full g.A.DeskAccess.may_follow (g.C.Clock.may_give c.args.clock.now) g.A.DeskAccess.limit
    (connection_of g.P.Port.stream g.P.Port.held g.P.Port.faults c.loop.conn) c.loop.room (g.A.DeskAccess.state c.args.access.now) (g.A.DeskAccess.state c.loop.access)
    c.loop.counter full c.loop.invariant.stands

pub returns-clause-keeps : goal.returns-clause-keeps
returns-clause-keeps g c = c.loop.invariant.keeps

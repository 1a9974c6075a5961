-- The ways in which a gauge that was asked over a connection answers.
use Rattle.std.proofs.Common.{◌≡◌, ◌⊎◌, inl, inr, ℕ, List, [], ◌∷◌, ◌++◌, sym, ap, ap₂, subst, refl, ◌∙◌, append_assoc, Option, true}
use Rattle.farm_ports.specs.declared.links.LinkCall.{LinkCall}
use Rattle.farm_ports.specs.declared.links.LinkCall.TheVariants.{Sent, Received}
use Rattle.farm_ports.specs.Links.{AddsCalls}
use Rattle.farm_ports.proofs.LinkCalls.{calls_add_up}
use Rattle.modbus_frame.specs.declared.expect.Expect.{Expect}
use Rattle.modbus_frame.specs.declared.frame.Frame.{Frame}
use Rattle.modbus_frame.specs.Fields.{IsDecided}
use Rattle.modbus_frame.specs.Requests.{request_frame}
use Rattle.gauge_maps.specs.declared.map.GaugeMap.{GaugeMap}
use Rattle.modbus_poll.specs.declared.polled.Polled.{Polled}
use Rattle.modbus_poll.specs.declared.polled.Polled.TheVariants.{LinkFault}
use Rattle.modbus_poll.specs.Pieces.{IsAnswered, IsUnanswered, StopsSending, received, sent}
use Rattle.modbus_poll.specs.Polls.{Asks, Decides, FailsToReceive, FailsToSend, IsGaugeAt, PollerState, connects_of, expect_of, number_after, polled_of}

-- calls, and then two lists of calls together
added_on : (old middle new : Option (List LinkCall)) (first second third : List LinkCall) → AddsCalls old middle first →
    AddsCalls middle new (second ++ third) → AddsCalls old new (first ++ second ++ third)
added_on old middle new first second third added then =
    let P : List LinkCall → Type 0 = λ calls. AddsCalls old new calls in
    subst P (sym (append_assoc first second third)) (calls_add_up old middle new first (second ++ third) added then)

-- a gauge whose turn it is, the poller being connected by these calls, and what is asked of it
pub record IsConnected (before after : Option (List LinkCall)) (old : PollerState) (gauge : GaugeMap) (expect : Expect) (index number : ℕ) : Type 0 where
  pub its_turn : IsGaugeAt old.line old.next gauge
  pub connects : AddsCalls before after (connects_of old)
  pub expect_is : expect ≡ expect_of gauge old.number
  pub index_is : index ≡ old.next
  pub number_is : number ≡ number_after old.number

-- the response was decided
pub decides : (before middle after : Option (List LinkCall)) (old : PollerState) (gauge : GaugeMap) (expect : Expect) (index number : ℕ) (answer : Polled) (frame : Frame) →
    IsConnected before middle old gauge expect index number → IsAnswered middle after expect frame → answer ≡ polled_of gauge index frame →
    Asks before after old (answer, number)
decides before middle after old gauge expect index number answer frame is answered answer_is =
    let sends = answered.sends in
    let receives = answered.receives in
    let E : Expect → Type 0 = λ e. Decides old gauge e number (connects_of old ++ sent sends.pieces ++ received receives.came) answer in
    let here : Decides old gauge expect number (connects_of old ++ sent sends.pieces ++ received receives.came) answer = record {
      pieces = sends.pieces;
      whole = sends.whole;
      came = receives.came;
      as_needed = receives.as_needed;
      decided = subst IsDecided (sym receives.is) receives.decided;
      calls_are = refl;
      answer_is = answer_is ∙ ap₂ (polled_of gauge) is.index_is (sym receives.is);
      number_is = is.number_is;
    } in
    record {
      calls = connects_of old ++ sent sends.pieces ++ received receives.came;
      added = calls_add_up before answered.middle after (connects_of old ++ sent sends.pieces) (received receives.came)
          (calls_add_up before middle answered.middle (connects_of old) (sent sends.pieces) is.connects sends.made) receives.made;
      asked = record { gauge = gauge; its_turn = is.its_turn; way = inr (inr (inr (subst E is.expect_is here))) };
    }

-- a send failed
pub fails_to_send : (before middle after : Option (List LinkCall)) (old : PollerState) (gauge : GaugeMap) (expect : Expect) (index number : ℕ) →
    IsConnected before middle old gauge expect index number → StopsSending middle after (request_frame expect) → Asks before after old (LinkFault index, number)
fails_to_send before middle after old gauge expect index number is stops =
    let calls : List LinkCall = connects_of old ++ sent stops.pieces ++ Sent [] true ∷ [] in
    let E : Expect → Type 0 = λ e. FailsToSend old e number calls (LinkFault index) in
    let here : FailsToSend old expect number calls (LinkFault index) = record {
      pieces = stops.pieces;
      front = stops.front;
      calls_are = refl;
      answer_is = ap LinkFault is.index_is;
      number_is = is.number_is;
    } in
    record {
      calls = calls;
      added = added_on before middle after (connects_of old) (sent stops.pieces) (Sent [] true ∷ []) is.connects stops.made;
      asked = record { gauge = gauge; its_turn = is.its_turn; way = inr (inl (subst E is.expect_is here)) };
    }

-- a receive failed
pub fails_to_receive : (before middle after : Option (List LinkCall)) (old : PollerState) (gauge : GaugeMap) (expect : Expect) (index number : ℕ) →
    IsConnected before middle old gauge expect index number → IsUnanswered middle after expect → Asks before after old (LinkFault index, number)
fails_to_receive before middle after old gauge expect index number is unanswered =
    let sends = unanswered.sends in
    let stops = unanswered.receives in
    let calls : List LinkCall = connects_of old ++ sent sends.pieces ++ received stops.came ++ Received [] true ∷ [] in
    let E : Expect → Type 0 = λ e. FailsToReceive old e number calls (LinkFault index) in
    let here : FailsToReceive old expect number calls (LinkFault index) = record {
      pieces = sends.pieces;
      whole = sends.whole;
      came = stops.came;
      as_needed = stops.as_needed;
      needed = stops.needed;
      undecided = stops.undecided;
      calls_are = refl;
      answer_is = ap LinkFault is.index_is;
      number_is = is.number_is;
    } in
    record {
      calls = calls;
      added = added_on before unanswered.middle after (connects_of old ++ sent sends.pieces) (received stops.came) (Received [] true ∷ [])
          (calls_add_up before middle unanswered.middle (connects_of old) (sent sends.pieces) is.connects sends.made) stops.made;
      asked = record { gauge = gauge; its_turn = is.its_turn; way = inr (inr (inl (subst E is.expect_is here))) };
    }

-- the link failed on the way
pub fails : (before middle after : Option (List LinkCall)) (old : PollerState) (gauge : GaugeMap) (expect : Expect) (index number : ℕ) →
    IsConnected before middle old gauge expect index number → StopsSending middle after (request_frame expect) ⊎ IsUnanswered middle after expect →
    Asks before after old (LinkFault index, number)
fails before middle after old gauge expect index number is (inl stops) = fails_to_send before middle after old gauge expect index number is stops
fails before middle after old gauge expect index number is (inr unanswered) = fails_to_receive before middle after old gauge expect index number is unanswered

-- Answers to the open goals of `look`.
use Rattle.std.proofs.Common.{◌≡◌, ◌+◌, ◌-◌, ◌<◌, ◌≤◌, length, take, drop, ap, sym, refl, ◌∙◌, subst, arith, length-take, length-drop}
use Rattle.farm_base.specs.Known.{Stays}
use Rattle.farm_journal.specs.Windows.{BeginsWith, Shows, WhereLeft}
use Rattle.farm_base.proofs.Known.{stays_same, stays_then}
use Rattle.farm_journal.proofs.Known.{known_still}
use Rattle.farm_journal.proofs.Fronts.{begins_same, begins_size}
use Rattle.farm_journal.proofs.Windows.{begins_longer, front_kept, shows_all, shows_more}
use Rattle.farm_journal.proofs.window.Window.look.Goals as goal

-- what was ahead is at the front of the buffer
pub returns-in_err-lengthen-clause-shows : goal.returns-in_err-lengthen-clause-shows
returns-in_err-lengthen-clause-shows g c =
    let inside = c.self.inside in
    let longer = c.lengthen.new.bytes.items in
    let all : inside.to - inside.from - 0 ≡ inside.to - inside.from = omega arith in
    let front : take (inside.to - inside.from - 0) longer ≡ take (inside.to - inside.from) (drop inside.from inside.bytes.items) =
    ap (λ size. take size longer) all
    ∙ front_kept inside.from inside.to inside.bytes.items c.move_to_front.new.bytes.items longer c.self.invariant.0 c.self.invariant.1
    c.move_to_front.ensures.size c.move_to_front.ensures.moved c.lengthen.ensures.kept in
    let shown : WhereLeft (g.D.Disk.trace inside.disk) inside.offset
    (BeginsWith (take (inside.to - inside.from) (drop inside.from inside.bytes.items))) =
    subst (λ window. Shows g.D.Disk.trace window) (sym c.self.view_is) c.requires.shows in
    subst (λ ahead. WhereLeft (g.D.Disk.trace inside.disk) inside.offset (BeginsWith ahead)) (sym front) shown

pub returns-in_err-lengthen-clause-grows : goal.returns-in_err-lengthen-clause-grows
returns-in_err-lengthen-clause-grows g c =
    let inside = c.self.inside in
    let longer = c.lengthen.new.bytes.items in
    let all : inside.to - inside.from - 0 ≡ inside.to - inside.from = omega arith in
    let front : take (inside.to - inside.from - 0) longer ≡ take (inside.to - inside.from) (drop inside.from inside.bytes.items) =
    ap (λ size. take size longer) all
    ∙ front_kept inside.from inside.to inside.bytes.items c.move_to_front.new.bytes.items longer c.self.invariant.0 c.self.invariant.1
    c.move_to_front.ensures.size c.move_to_front.ensures.moved c.lengthen.ensures.kept in
    begins_same c.args.self.now.ahead (take (inside.to - inside.from - 0) longer)
    (sym (front ∙ ap (λ window. window.ahead) c.self.view_is))

pub loop-self-init : goal.loop-self-init
loop-self-init g c =
    let inside = c.self.inside in
    let longer = c.lengthen.new.bytes.items in
    let moved = c.move_to_front.new.bytes.items in
    let front : take (inside.to - inside.from) longer ≡ take (inside.to - inside.from) (drop inside.from inside.bytes.items) =
    front_kept inside.from inside.to inside.bytes.items moved longer c.self.invariant.0 c.self.invariant.1
    c.move_to_front.ensures.size c.move_to_front.ensures.moved c.lengthen.ensures.kept in
    let shown : WhereLeft (g.D.Disk.trace inside.disk) inside.offset
    (BeginsWith (take (inside.to - inside.from) (drop inside.from inside.bytes.items))) =
    subst (λ window. Shows g.D.Disk.trace window) (sym c.self.view_is) c.requires.shows in
    record {
      from = refl;
      within = omega (arith, begins_size moved longer c.lengthen.ensures.kept, c.move_to_front.ensures.size, c.self.invariant);
      room = c.in_ok-lengthen.ensures.room;
      offset = ap (λ window. window.offset) c.self.view_is;
      shows = subst (λ ahead. WhereLeft (g.D.Disk.trace inside.disk) inside.offset (BeginsWith ahead)) (sym front) shown;
      grows = begins_same c.args.self.now.ahead (take (inside.to - inside.from) longer)
          (sym (front ∙ ap (λ window. window.ahead) c.self.view_is));
      stays = subst (λ window. Stays (g.D.Disk.trace window.disk) (g.D.Disk.trace inside.disk)) c.self.view_is
          (stays_same (g.D.Disk.trace inside.disk));
      quiet = ap (λ window. g.D.Disk.faults window.disk) c.self.view_is;
      moment = omega (arith, ap (λ window. g.D.Disk.moment window.disk) c.self.view_is);
    }

-- at the end of the disk all that is left was read
pub returns-then-count-eq0-clause-looked : goal.returns-then-count-eq0-clause-looked
returns-then-count-eq0-clause-looked g c =
    let inside = c.loop-self.self-inside in
    let now = c.read_piece.new.bytes.items in
    let known = g.D.Disk.trace c.read_piece.new.disk in
    let read = c.in_ok-count.ensures.read in
    let from : inside.from ≡ 0 = c.loop-self.invariant.from in
    let all : inside.to - inside.from ≡ inside.to = omega arith in
    let ahead : take (inside.to - inside.from) (drop inside.from now) ≡ take inside.to now =
    ap (λ from. take (inside.to - inside.from) (drop from now)) from ∙ ap (λ size. take size now) all in
    let size : length now ≡ length inside.bytes.items = c.in_ok-count.ensures.size in
    let within : inside.to ≤ length now = omega (arith, c.loop-self.invariant.within) in
    let shown : WhereLeft known inside.offset (BeginsWith (take inside.to now)) =
    subst (λ ahead. WhereLeft known inside.offset (BeginsWith ahead)) (sym c.in_ok-count.ensures.front)
    (known_still (g.D.Disk.trace inside.disk) known _ read.stays c.loop-self.invariant.shows) in
    let some : 0 < length (drop inside.to now) = omega (arith, length-drop inside.to now, c.loop-self-test.true, c.loop-self.invariant.room) in
    let whole : WhereLeft known inside.offset (λ left. left ≡ take inside.to now) =
    shows_all known inside.offset inside.to now within shown (read.at_end c.if-count-eq0.true some) in (
      omega (arith, ap length ahead, length-take inside.to now, c.loop-self-test.true),
      subst (λ offset. WhereLeft known offset (λ left. left ≡ take (inside.to - inside.from) (drop inside.from now))) c.loop-self.invariant.offset
          (subst (λ ahead. WhereLeft known inside.offset (λ left. left ≡ ahead)) (sym ahead) whole),
    )

pub loop-self-preserved : goal.loop-self-preserved
loop-self-preserved g c =
    let inside = c.loop-self.self-inside in
    let invariant = c.loop-self.invariant in
    let old = inside.bytes.items in
    let now = c.read_piece.new.bytes.items in
    let known = g.D.Disk.trace c.read_piece.new.disk in
    let count = c.in_ok-count.count in
    let read = c.in_ok-count.ensures.read in
    let size : length now ≡ length old = c.in_ok-count.ensures.size in
    let within : inside.to + count ≤ length now = omega (arith, read.within, length-drop inside.to now, invariant.within) in
    record {
      from = invariant.from;
      within = within;
      room = omega (arith, invariant.room);
      offset = invariant.offset;
      shows = shows_more known inside.offset inside.to count old now invariant.within within c.in_ok-count.ensures.front
          (known_still (g.D.Disk.trace inside.disk) known _ read.stays invariant.shows) read.bytes;
      grows = begins_longer c.args.self.now.ahead old now inside.to count c.in_ok-count.ensures.front invariant.grows;
      stays = stays_then _ (g.D.Disk.trace inside.disk) known invariant.stays read.stays;
      quiet = c.in_ok-count.ensures.counts.quiet ∙ invariant.quiet;
      moment = omega (arith, invariant.moment, c.in_ok-count.ensures.moment);
    }

use Rattle.std.proofs.Common.{◌≡◌, ℕ, ◌+◌, ◌≤◌, Some, None, length, Option, sym, ◌∙◌, subst, arith, rules}
use Rattle.std.specs.Bool.{Decides}
use Rattle.std.specs.Option.{option_map}
use Rattle.std.proofs.lemmas.Bool.Decides.{not_from_Decides, Decides-at}
use Rattle.std.proofs.lemmas.List.{get_or_default}
use Rattle.ranks.specs.Order.{Stands, FirstBehind}
use Rattle.ranks.proofs.First.{within_more, first_passes, first_keeps, first_takes, first_behind_one, first_passed, none_past}
use Rattle.ranks.proofs.Seen.{stands_decided, leads_told}
use Rattle.ranks.proofs.order.next_in_order.Goals as goal
use Rattle.ranks.proofs.order.next_in_order.Goals.{then-stands+then-leads, else-stands, else-stands-via-then-stands+else-leads, else-stands-via-else-stands}

pub returns-in_err-get-in-Some-clause-only : goal.returns-in_err-get-in-Some-clause-only
returns-in_err-get-in-Some-clause-only g c =
    let a = c.args in
    let gr = g.R.Ranked.group in
    let pr = g.R.Ranked.precedes in
    let past : length a.list.now ≤ c.in-Some.place = search rules in
    λ other h. first_behind_one gr pr a.list.now a.group (Some c.in-Some.place) other None
    (subst (λ (b : Option ℕ). FirstBehind gr pr a.list.now a.group b other) c.in-Some.is h) (none_past gr pr a.list.now a.group c.in-Some.place past) ∙ sym c.from_residual.ensures

pub loop-place-preserved : goal.loop-place-preserved
loop-place-preserved g c =
    let law = g.met.R.Ranked in
    let gr = g.R.Ranked.group in
    let pr = g.R.Ranked.precedes in
    let a = c.args in
    let l = c.loop-place in
    let i = l.invariant in
    let x = c.index-list-place.result in
    let best = option_map (λ b. b.0) l.best in
    let stood : (d : g.row.R.Denot) → Decides c.stands.result (Stands gr pr d a.list.now a.group a.behind l.place)
    = λ d. Decides-at _ _ c.stands.ensures (stands_decided pr d a.list.now l.place x c.loop-place-test.true c.index-list-place.is gr a.group a.behind _ i.starts) in
    let led = λ (d : g.row.R.Denot). leads_told pr d a.list.now l.place x c.loop-place-test.true c.index-list-place.is (λ r. r.now) l.best i.read in
    elim c.if-stands.branch [
      | then-stands+then-leads w ↦ simp w.best-is (record {
        starts = i.starts;
        within = omega arith;
        first = λ d. first_takes gr pr d a.list.now a.group a.behind g.R.Ranked.alike law.apart law.chains law.ties law.same l.place best (i.first d) ((stood d).0 w.if-stands.true) (sym (led d) ∙ sym w.leads.ensures ∙ w.if-leads.true);
        read = λ d. c.index-list-place.is ∙ get_or_default a.list.now l.place x d c.loop-place-test.true;
      })
      | else-stands w ↦ simp w.best-is (record {
        starts = i.starts;
        within = within_more l.place (l.place + 1) best (omega arith) i.within;
        first = λ d. elim w.else-stands.branch [
          | else-stands-via-then-stands+else-leads v ↦ first_keeps gr pr d a.list.now a.group a.behind l.place best (i.first d) (sym (led d) ∙ sym v.leads.ensures ∙ v.if-leads.false)
          | else-stands-via-else-stands v ↦ first_passes gr pr d a.list.now a.group a.behind l.place best (i.first d) (not_from_Decides _ (stood d) v.if-stands.false)
        ];
        read = i.read;
      })
    ]

pub returns-clause-first : goal.returns-clause-first
returns-clause-first g c =
    let told : c.map.result ≡ option_map (λ b. b.0) c.loop-place.best = search rules in
    let all : c.loop-place.place ≡ length c.args.list.now = omega arith in
    let i = c.loop-place.invariant in
    simp told (first_passed g.R.Ranked.group g.R.Ranked.precedes c.args.list.now c.args.group c.args.behind _ c.loop-place.place all i.within i.first)

pub returns-clause-only : goal.returns-clause-only
returns-clause-only g c =
    let told : c.map.result ≡ option_map (λ b. b.0) c.loop-place.best = search rules in
    let all : c.loop-place.place ≡ length c.args.list.now = omega arith in
    let i = c.loop-place.invariant in
    λ other h. first_behind_one g.R.Ranked.group g.R.Ranked.precedes c.args.list.now c.args.group c.args.behind other _ h
    (first_passed g.R.Ranked.group g.R.Ranked.precedes c.args.list.now c.args.group c.args.behind _ c.loop-place.place all i.within i.first) ∙ sym told

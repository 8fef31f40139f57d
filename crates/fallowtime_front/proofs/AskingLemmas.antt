-- What a command of words asks for.
use Rattle.std.proofs.Common.{◌≡◌, ◌∙◌, ℕ, Bool, true, false, List, [], Bor, Some, Ok, Err, inl, inr, ap, refl, sym, subst}
use Rattle.fallowtime_front.specs.Asking.{AsksByWords, ended_of_stop, given_of}
use Rattle.fallowtime_front.specs.declared.asking.Asked.{Asked}
use Rattle.fallowtime_front.specs.declared.ending.Ended.{Ended}
use Rattle.fallowtime_requests.specs.Along.{Along, AlongUnless, BecomesIf, StopsAlong, StopsUnless, has_dot}
use Rattle.fallowtime_requests.specs.Arranging.{IsOfWords, StopsWanted, WantsByWords}
use Rattle.fallowtime_requests.specs.Reading.{KeepsMaker, Reads}
use Rattle.fallowtime_requests.specs.Inputs.{Given}
use Rattle.fallowtime_requests.specs.Requests as requests
use Rattle.fallowtime_requests.specs.Upserts.{IsByQuery, StopsByWords, UpsertsByWords}
use Rattle.fallowtime_requests.specs.declared.reading.Layout.{Layout}
use Rattle.fallowtime_requests.specs.declared.reading.Question.{Question}
use Rattle.fallowtime_requests.specs.declared.request.Request.{Request}
use Rattle.fallowtime_requests.specs.declared.request.Request.TheVariants as request
use Rattle.fallowtime_requests.specs.declared.request.Work.TheVariants as work
use Rattle.fallowtime_requests.specs.declared.request.Wanted.{Wanted}
use Rattle.fallowtime_requests.specs.declared.stop.Stop.{Stop}
use Rattle.fallowtime_requests.specs.declared.stop.Stop.TheVariants.{Memory, Words}
use Rattle.cli_convert.specs.declared.made.IdMaker.{IdMaker}
use Rattle.fallowtime_words.specs.declared.command.Command.{Command}
use Rattle.fallowtime_words.specs.declared.command.Command.TheVariants as command
use Rattle.fallowtime_words.specs.declared.words.Words.{Words as Wording}

module _ (w : Wording) (m mid n : IdMaker) where
  pub by_question : (q v u p : Question) (a : Asked) (r : Request) → Reads m mid w.command (given_of w) (Ok q)
      → AlongUnless w.options.literal q.request v.request × (v.collection ≡ q.collection) × (v.layout ≡ q.layout)
      → UpsertsByWords mid n w v.request u.request × (u.collection ≡ v.collection) × (u.layout ≡ v.layout)
      → WantsByWords w u.request p.request → p.collection ≡ u.collection
      → a.collection ≡ p.collection → r ≡ requests.with_drops w.options.drops (requests.with_counts w.options.counts (requests.with_many w.options.many p.request)) → a.request ≡ Some r → a.lines.items ≡ [] → AsksByWords w m n (Ok a)
  by_question q v u p a r reads along upserts wants same named meant requested lines = (
    mid,
    q.request,
    v.request,
    u.request,
    p.request,
    q.layout,
    requested ∙ ap Some meant,
    lines,
    subst (λ (b : Bor (List ℕ)). requests.Asks m mid w.command (given_of w) b.now q.request q.layout) (sym (named ∙ same ∙ upserts.1 ∙ along.1)) reads,
    along.0,
    upserts.0,
    wants,
  )

module _ (w : Wording) (m n : IdMaker) where
  pub by_stop : (a : Wanted) (s : Stop) (e : Ended) → IsOfWords w a → Reads m n w.command (given_of w) (Err s) → KeepsMaker m n s → e ≡ ended_of_stop s → AsksByWords w m n (Err e)
  by_stop a s e wants reads keeps is = inr (s, inr (inl ((a, wants), reads)), is, keeps)

-- a change by query takes no id of the maker
takes_none : (m n : IdMaker) (c : Command) (gs : List Given) (name : List ℕ) (r : Request) (l : Layout) → IsByQuery r → requests.Asks m n c gs name r l → n ≡ m
takes_none m n command.Update gs name (request.Change q (work.Update steps) many) l is h = h.1
takes_none m n command.ReplaceOne gs name (request.Change q (work.Replace d) many) l is h = h.2
takes_none m n command.Delete gs name (request.Change q work.Remove many) l is h = h.1
takes_none m n _ gs name (request.Change q w many) l is h = absurd h
takes_none m n _ gs name _ l is h = absurd is

kept : (m mid n : IdMaker) (s : Stop) → mid ≡ m → KeepsMaker mid n s → KeepsMaker m n s
kept m mid n (Words u) same keeps = keeps ∙ same
kept m mid n Memory same keeps = tt

-- a change by query has no key
by_key : (b : Bool) (was p : Request) (P : Request → Type 0) → ((s : Request) → P s → IsByQuery s → ⊥) → (IsByQuery was → ⊥) → BecomesIf b was P p → IsByQuery p → ⊥
by_key true was p P never none h by = never p h by
by_key false was p P never none h by = none (subst IsByQuery h by)

still_along : (r p : Request) → Along r p → IsByQuery p → IsByQuery r
still_along (request.Set id key v) p h by = absurd (by_key (has_dot key.now) (request.Set id key v) p _ (λ s becomes by. subst IsByQuery becomes.2 by) (λ none. none) h by)
still_along (request.Unset id key) p h by = absurd (by_key (has_dot key.now) (request.Unset id key) p _ (λ s becomes by. subst IsByQuery becomes.2 by) (λ none. none) h by)
still_along r p h by = subst IsByQuery h by

still : (literal : Bool) (r p : Request) → AlongUnless literal r p → IsByQuery p → IsByQuery r
still true r p h by = subst IsByQuery h by
still false r p h by = still_along r p h by

pub by_equalities : (w : Wording) (m mid n : IdMaker) (q v : Question) (s : Stop) (e : Ended) → Reads m mid w.command (given_of w) (Ok q) → AlongUnless w.options.literal q.request v.request × (v.collection ≡ q.collection) × (v.layout ≡ q.layout)
    → StopsByWords w v.request s → KeepsMaker mid n s → e ≡ ended_of_stop s → AsksByWords w m n (Err e)
by_equalities w m mid n q v s e reads along stops keeps is =
    let by = still w.options.literal q.request v.request along.0 stops.0 in
    inr (s, inr (inr (inr (mid, q.collection.now, q.request, v.request, q.layout, reads, along.0, stops))), is, kept m mid n s (takes_none m mid w.command (given_of w) q.collection.now q.request q.layout by reads) keeps)

-- nor does a command with a key
named_none : (m n : IdMaker) (c : Command) (gs : List Given) (name : List ℕ) (r : Request) (l : Layout) (s : Stop) → StopsAlong r s → requests.Asks m n c gs name r l → n ≡ m
named_none m n command.Set gs name (request.Set id key v) l s is h = h.1
named_none m n command.Unset gs name (request.Unset id key) l s is h = h.1
named_none m n _ gs name (request.Set id key v) l s is h = absurd h
named_none m n _ gs name (request.Unset id key) l s is h = absurd h
named_none m n _ gs name _ l s is h = absurd is

keeps_so : (m n : IdMaker) (s : Stop) → n ≡ m → KeepsMaker m n s
keeps_so m n (Words u) same = same
keeps_so m n Memory same = tt

pub by_path : (w : Wording) (m n : IdMaker) (q : Question) (s : Stop) (e : Ended) → Reads m n w.command (given_of w) (Ok q) → StopsUnless w.options.literal q.request s → e ≡ ended_of_stop s → AsksByWords w m n (Err e)
by_path w m n q s e reads stops is =
    inr (s, inr (inr (inl (q.collection.now, q.request, q.layout, reads, stops))), is, keeps_so m n s (named_none m n w.command (given_of w) q.collection.now q.request q.layout s stops.1 reads))

unmoved : (m : IdMaker) (s : Stop) → KeepsMaker m m s
unmoved m (Words u) = refl
unmoved m Memory = tt

pub by_wanted : (w : Wording) (m : IdMaker) (s : Stop) (e : Ended) → StopsWanted w s → e ≡ ended_of_stop s → AsksByWords w m m (Err e)
by_wanted w m s e stops is = inr (s, inl (stops, refl), is, unmoved m s)

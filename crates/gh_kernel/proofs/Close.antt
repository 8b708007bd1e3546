-- Two substitutions are one, and the empty one changes nothing.
use Rattle.std.proofs.Common.{◌≡◌, ℕ, Bool, true, false, cond, Option, Some, None, refl, sym, ap, ◌∙◌}
use Rattle.std.specs.Prelude.{◌==◌, ◌||◌}
use Rattle.gh_kernel.specs.Closing.{Env, binds_pats, binds_name, groups_bind, empty, without, stands, close, close_all, close_binds, close_groups, close_rows, close_bodies, close_table}
use Rattle.gh_kernel.specs.Laws.{first_of, over}
use Rattle.gh_kernel.specs.Terms.{Expr, var, top, con, lit, string, lam, app, lets, cases, call, redef, ann, whole, contents, convert, Exprs, no_expr, expr, Binds, no_bind, bind, Groups, no_group, group, Rows, no_row, row, Bodies, no_body, always, guarded, Table, no_entry, entry}

module _ {N : Type 0} where
  first_cond : (b : Bool) (o p : Option (Expr N)) → cond b None (first_of o p) ≡ first_of (cond b None o) (cond b None p)
  first_cond true o p = refl
  first_cond false o p = refl

  without-over : (σ τ : Env N) (p : ℕ → Bool) → without (over σ τ) p ≡ over (without σ p) (without τ p)
  without-over σ τ p = λ i y. first_cond (p y) (σ y) (τ y) i

  without-over-twice : (σ τ : Env N) (p q : ℕ → Bool) → without (without (over σ τ) p) q ≡ over (without (without σ p) q) (without (without τ p) q)
  without-over-twice σ τ p q = ap (λ r. without r q) (without-over σ τ p) ∙ without-over (without σ p) (without τ p) q

  stands_twice : (n : N) (o : Option (Expr N)) (x : ℕ) (σ : Env N) → close (stands n o x) σ ≡ stands n (first_of o (σ x)) x
  stands_twice n None x σ = refl
  stands_twice n (Some e) x σ = refl

  binds-close : (bs : Binds N) (σ : Env N) → binds_name (close_binds bs σ) ≡ binds_name bs
  binds-close no_bind σ = refl
  binds-close (bind n x s e rest) σ = λ i y. y == x || binds-close rest σ i y

  groups-close : (gs : Groups N) (σ : Env N) → groups_bind (close_groups gs σ) ≡ groups_bind gs
  groups-close no_group σ = refl
  groups-close (group bs rest) σ = λ i y. binds-close bs σ i y || groups-close rest σ i y

  mutual
    pub close-close : (e : Expr N) (ρ σ : Env N) → close (close e ρ) σ ≡ close e (over ρ σ)
    close-close (var n x) ρ σ = stands_twice n (ρ x) x σ
    close-close (top n x) ρ σ = refl
    close-close (con n c) ρ σ = refl
    close-close (lit n l) ρ σ = refl
    close-close (string n cs) ρ σ = refl
    close-close (lam n x b) ρ σ =
        ap (lam n x) (close-close b (without ρ (λ y. y == x)) (without σ (λ y. y == x)) ∙ ap (close b) (sym (without-over ρ σ (λ y. y == x))))
    close-close (app n f e) ρ σ = λ i. app n (close-close f ρ σ i) (close-close e ρ σ i)
    close-close (lets n gs b) ρ σ =
        let q = groups_bind gs in
        let ρ' = without ρ q in
        let same : without σ (groups_bind (close_groups gs ρ')) ≡ without σ q = ap (without σ) (groups-close gs ρ') in
        let gs_twice : close_groups (close_groups gs ρ') (without σ (groups_bind (close_groups gs ρ'))) ≡ close_groups gs (without (over ρ σ) q)
        = ap (close_groups (close_groups gs ρ')) same ∙ close_groups-close gs ρ' (without σ q) ∙ ap (close_groups gs) (sym (without-over ρ σ q)) in
        let b_twice : close (close b ρ') (without σ (groups_bind (close_groups gs ρ'))) ≡ close b (without (over ρ σ) q)
        = ap (close (close b ρ')) same ∙ close-close b ρ' (without σ q) ∙ ap (close b) (sym (without-over ρ σ q)) in
        λ i. lets n (gs_twice i) (b_twice i)
    close-close (cases n es rows) ρ σ = λ i. cases n (close_all-close es ρ σ i) (close_rows-close rows ρ σ i)
    close-close (call n w t) ρ σ = refl
    close-close (redef n k text table b) ρ σ = λ i. redef n k text (close_table-close table ρ σ i) (close-close b ρ σ i)
    close-close (ann n e s) ρ σ = λ i. ann n (close-close e ρ σ i) s
    close-close (whole e) ρ σ = refl
    close-close (contents c e) ρ σ = ap (contents c) (close-close e ρ σ)
    close-close (convert n d h generic t) ρ σ = refl

    pub close_all-close : (es : Exprs N) (ρ σ : Env N) → close_all (close_all es ρ) σ ≡ close_all es (over ρ σ)
    close_all-close no_expr ρ σ = refl
    close_all-close (expr e rest) ρ σ = λ i. expr (close-close e ρ σ i) (close_all-close rest ρ σ i)

    pub close_binds-close : (bs : Binds N) (ρ σ : Env N) → close_binds (close_binds bs ρ) σ ≡ close_binds bs (over ρ σ)
    close_binds-close no_bind ρ σ = refl
    close_binds-close (bind n x s e rest) ρ σ = λ i. bind n x s (close-close e ρ σ i) (close_binds-close rest ρ σ i)

    pub close_groups-close : (gs : Groups N) (ρ σ : Env N) → close_groups (close_groups gs ρ) σ ≡ close_groups gs (over ρ σ)
    close_groups-close no_group ρ σ = refl
    close_groups-close (group bs rest) ρ σ = λ i. group (close_binds-close bs ρ σ i) (close_groups-close rest ρ σ i)

    pub close_rows-close : (rows : Rows N) (ρ σ : Env N) → close_rows (close_rows rows ρ) σ ≡ close_rows rows (over ρ σ)
    close_rows-close no_row ρ σ = refl
    close_rows-close (row ps gs bs rest) ρ σ =
        let p = binds_pats ps in
        let q = groups_bind gs in
        let ρ' = without (without ρ p) q in
        let σ' = without (without σ p) q in
        let same : without (without σ p) (groups_bind (close_groups gs ρ')) ≡ σ' = ap (without (without σ p)) (groups-close gs ρ') in
        let gs_twice : close_groups (close_groups gs ρ') (without (without σ p) (groups_bind (close_groups gs ρ'))) ≡ close_groups gs (without (without (over ρ σ) p) q)
        = ap (close_groups (close_groups gs ρ')) same ∙ close_groups-close gs ρ' σ' ∙ ap (close_groups gs) (sym (without-over-twice ρ σ p q)) in
        let bs_twice : close_bodies (close_bodies bs ρ') (without (without σ p) (groups_bind (close_groups gs ρ'))) ≡ close_bodies bs (without (without (over ρ σ) p) q)
        = ap (close_bodies (close_bodies bs ρ')) same ∙ close_bodies-close bs ρ' σ' ∙ ap (close_bodies bs) (sym (without-over-twice ρ σ p q)) in
        λ i. row ps (gs_twice i) (bs_twice i) (close_rows-close rest ρ σ i)

    pub close_bodies-close : (bs : Bodies N) (ρ σ : Env N) → close_bodies (close_bodies bs ρ) σ ≡ close_bodies bs (over ρ σ)
    close_bodies-close no_body ρ σ = refl
    close_bodies-close (always e rest) ρ σ = λ i. always (close-close e ρ σ i) (close_bodies-close rest ρ σ i)
    close_bodies-close (guarded g e rest) ρ σ = λ i. guarded (close-close g ρ σ i) (close-close e ρ σ i) (close_bodies-close rest ρ σ i)

    pub close_table-close : (table : Table N) (ρ σ : Env N) → close_table (close_table table ρ) σ ≡ close_table table (over ρ σ)
    close_table-close no_entry ρ σ = refl
    close_table-close (entry w place e rest) ρ σ = λ i. entry w place (close-close e ρ σ i) (close_table-close rest ρ σ i)

  without_none : (b : Bool) → cond b None None ≡ (let n : Option (Expr N) = None in n)
  without_none true = refl
  without_none false = refl

  pub without-empty : (p : ℕ → Bool) → without {N = N} empty p ≡ empty
  without-empty p = λ i y. without_none (p y) i

  without-empty-twice : (p q : ℕ → Bool) → without {N = N} (without empty p) q ≡ empty
  without-empty-twice p q = ap (λ r. without r q) (without-empty p) ∙ without-empty q

  mutual
    -- the empty substitution changes nothing
    pub close-empty : (e : Expr N) → close e empty ≡ e
    close-empty (var n x) = refl
    close-empty (top n x) = refl
    close-empty (con n c) = refl
    close-empty (lit n l) = refl
    close-empty (string n cs) = refl
    close-empty (lam n x b) = ap (lam n x) (ap (close b) (without-empty (λ y. y == x)) ∙ close-empty b)
    close-empty (app n f e) = λ i. app n (close-empty f i) (close-empty e i)
    close-empty (lets n gs b) =
        λ i. lets n ((ap (close_groups gs) (without-empty (groups_bind gs)) ∙ close_groups-empty gs) i) ((ap (close b) (without-empty (groups_bind gs)) ∙ close-empty b) i)
    close-empty (cases n es rows) = λ i. cases n (close_all-empty es i) (close_rows-empty rows i)
    close-empty (call n w t) = refl
    close-empty (redef n k text table b) = λ i. redef n k text (close_table-empty table i) (close-empty b i)
    close-empty (ann n e s) = λ i. ann n (close-empty e i) s
    close-empty (whole e) = refl
    close-empty (contents c e) = ap (contents c) (close-empty e)
    close-empty (convert n d h generic t) = refl

    close_all-empty : (es : Exprs N) → close_all es empty ≡ es
    close_all-empty no_expr = refl
    close_all-empty (expr e rest) = λ i. expr (close-empty e i) (close_all-empty rest i)

    close_binds-empty : (bs : Binds N) → close_binds bs empty ≡ bs
    close_binds-empty no_bind = refl
    close_binds-empty (bind n x s e rest) = λ i. bind n x s (close-empty e i) (close_binds-empty rest i)

    close_groups-empty : (gs : Groups N) → close_groups gs empty ≡ gs
    close_groups-empty no_group = refl
    close_groups-empty (group bs rest) = λ i. group (close_binds-empty bs i) (close_groups-empty rest i)

    close_rows-empty : (rows : Rows N) → close_rows rows empty ≡ rows
    close_rows-empty no_row = refl
    close_rows-empty (row ps gs bs rest) =
        λ i. row ps ((ap (close_groups gs) (without-empty-twice (binds_pats ps) (groups_bind gs)) ∙ close_groups-empty gs) i)
        ((ap (close_bodies bs) (without-empty-twice (binds_pats ps) (groups_bind gs)) ∙ close_bodies-empty bs) i) (close_rows-empty rest i)

    close_bodies-empty : (bs : Bodies N) → close_bodies bs empty ≡ bs
    close_bodies-empty no_body = refl
    close_bodies-empty (always e rest) = λ i. always (close-empty e i) (close_bodies-empty rest i)
    close_bodies-empty (guarded g e rest) = λ i. guarded (close-empty g i) (close-empty e i) (close_bodies-empty rest i)

    close_table-empty : (table : Table N) → close_table table empty ≡ table
    close_table-empty no_entry = refl
    close_table-empty (entry w place e rest) = λ i. entry w place (close-empty e i) (close_table-empty rest i)

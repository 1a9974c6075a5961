-- The rows of the desk's router, written out.
use Rattle.std.proofs.Common.{◌≡◌, ℕ, ◌==◌, false, List, [], ◌∷◌, ◌++◌, Some, codes, refl, ap, subst, ◌∙◌}
use Rattle.matchit.proofs.OnLiterals.{matchit_on_literals}
use Rattle.matchit.specs.Router.{RouteOf}
use Rattle.matchit.specs.Rows.{RowsOf, param_token}
use Rattle.matchit.specs.Seek.{first, has_slash, param_step, seek}
use Rattle.http_requests.specs.declared.route.Route.{Route}
use Rattle.http_requests.specs.declared.route.Route.TheVariants as kinds
use Rattle.http_requests.specs.declared.word.Word.{Word}
use Rattle.http_requests.specs.declared.word.Word.TheVariants as words
use Rattle.http_requests.specs.Routes.{desk_rows, route_of, routes, text_of, with_route}
use Rattle.http_requests.proofs.Seeking.{AllPlain, AllRows, Matches, begins, found_after, found_by_parameter, found_matches, literal, of_found}

-- a route without a parameter
abbrev pub plain : List ℕ → Route → RouteOf Route
plain text kind = record { pattern = text; text = text; names = []; value = kind }

abbrev pub stock_route : RouteOf Route
stock_route = record {
  pattern = codes "/stock/" ++ param_token ∷ [];
  text = codes "/stock/{tank}";
  names = (8, 12) ∷ [];
  value = kinds.Stock;
}

abbrev pub ticket_route : RouteOf Route
ticket_route = record {
  pattern = codes "/ticket/" ++ param_token ∷ [];
  text = codes "/ticket/{place}";
  names = (9, 14) ∷ [];
  value = kinds.Ticket;
}

abbrev row : RouteOf Route → List ℕ × RouteOf Route
row route = (route.pattern, route)

abbrev pub listed : RowsOf (RouteOf Route)
listed =
    row (plain (codes "/cancel") (kinds.Command words.Cancel))
    ∷ row (plain (codes "/close") (kinds.Command words.Close))
    ∷ row (plain (codes "/dip") (kinds.Command words.Dip))
    ∷ row (plain (codes "/gauge") (kinds.Command words.Gauge))
    ∷ row (plain (codes "/open") (kinds.Command words.Open))
    ∷ row (plain (codes "/reverse") (kinds.Command words.Reverse))
    ∷ row (plain (codes "/sample") (kinds.Command words.Sample))
    ∷ row (plain (codes "/settle") (kinds.Command words.Settle))
    ∷ row stock_route
    ∷ row (plain (codes "/stop") (kinds.Command words.Stop))
    ∷ row ticket_route
    ∷ row (plain (codes "/total") kinds.Total)
    ∷ []

desk_rows_are : desk_rows ≡ listed
unfolding desk_rows routes with_route matchit_on_literals
desk_rows_are = refl

listed_plain : AllPlain listed
listed_plain = (tt, (tt, (tt, (tt, (tt, (tt, (tt, (tt, (refl, (tt, (refl, (tt, tt))))))))))))

-- what a path is that matches a route of a kind
abbrev pub ShapeOf : Route → List ℕ → RouteOf Route → Type 0
ShapeOf (kinds.Command word) path route = (path ≡ codes "/" ++ text_of word) × (route.names ≡ [])
ShapeOf kinds.Stock path route = (parameter : List ℕ) × (path ≡ codes "/stock/" ++ parameter) × (route ≡ stock_route)
ShapeOf kinds.Total path route = (path ≡ codes "/total") × (route.names ≡ [])
ShapeOf kinds.Ticket path route = (parameter : List ℕ) × (path ≡ codes "/ticket/" ++ parameter) × (route ≡ ticket_route)

abbrev pub Fits : List ℕ → RouteOf Route → Type 0
Fits path route = ShapeOf route.value path route

listed_fit : (path : List ℕ) → AllRows listed (λ pattern route. Matches pattern path → Fits path route)
listed_fit path = (
  λ m. (literal (codes "/cancel") path refl m, refl),
  (
    λ m. (literal (codes "/close") path refl m, refl),
    (
      λ m. (literal (codes "/dip") path refl m, refl),
      (
        λ m. (literal (codes "/gauge") path refl m, refl),
        (
          λ m. (literal (codes "/open") path refl m, refl),
          (
            λ m. (literal (codes "/reverse") path refl m, refl),
            (
              λ m. (literal (codes "/sample") path refl m, refl),
              (
                λ m. (literal (codes "/settle") path refl m, refl),
                (
                  λ m. let b = begins (codes "/stock/") path refl m in (b.0, b.1, refl),
                  (
                    λ m. (literal (codes "/stop") path refl m, refl),
                    (
                      λ m. let b = begins (codes "/ticket/") path refl m in (b.0, b.1, refl),
                      (
                        λ m. (literal (codes "/total") path refl m, refl),
                        tt,
                      ),
                    ),
                  ),
                ),
              ),
            ),
          ),
        ),
      ),
    ),
  ),
)

-- a path that matches a route is one of its kind
pub route_fits : (path : List ℕ) (route : RouteOf Route) → route_of path ≡ Some route → Fits path route
route_fits path route is =
    of_found (Fits path) listed path route (listed_fit path)
    (found_matches path listed route listed_plain
    (subst (λ (rows : RowsOf (RouteOf Route)). first rows path ≡ Some route) desk_rows_are is))

on_listed : (path : List ℕ) (route : RouteOf Route) → first listed path ≡ Some route → route_of path ≡ Some route
on_listed path route is = ap (λ rows. first rows path) desk_rows_are ∙ is

word_listed : (word : Word) → first listed (codes "/" ++ text_of word) ≡ Some (plain (codes "/" ++ text_of word) (kinds.Command word))
unfolding seek param_step
word_listed words.Gauge = refl
word_listed words.Dip = refl
word_listed words.Sample = refl
word_listed words.Open = refl
word_listed words.Close = refl
word_listed words.Cancel = refl
word_listed words.Settle = refl
word_listed words.Reverse = refl
word_listed words.Stop = refl

total_listed : first listed (codes "/total") ≡ Some (plain (codes "/total") kinds.Total)
unfolding seek param_step
total_listed = refl

-- each route is found by its paths
pub word_found : (word : Word) → route_of (codes "/" ++ text_of word) ≡ Some (plain (codes "/" ++ text_of word) (kinds.Command word))
word_found word = on_listed (codes "/" ++ text_of word) (plain (codes "/" ++ text_of word) (kinds.Command word)) (word_listed word)

pub total_found : route_of (codes "/total") ≡ Some (plain (codes "/total") kinds.Total)
total_found = on_listed (codes "/total") (plain (codes "/total") kinds.Total) total_listed

pub stock_found : (byte : ℕ) (rest : List ℕ) → has_slash (byte ∷ rest) ≡ false → (param_token == byte) ≡ false
    → route_of (codes "/stock/" ++ byte ∷ rest) ≡ Some stock_route
stock_found byte rest slash other =
    on_listed (codes "/stock/" ++ byte ∷ rest) stock_route
    (found_after 47 (codes "stock/" ++ byte ∷ rest) listed stock_route
    (found_after 115 (codes "tock/" ++ byte ∷ rest) _ stock_route
    (found_after 116 (codes "ock/" ++ byte ∷ rest) _ stock_route
    (found_after 111 (codes "ck/" ++ byte ∷ rest) _ stock_route
    (found_after 99 (codes "k/" ++ byte ∷ rest) _ stock_route
    (found_after 107 (codes "/" ++ byte ∷ rest) _ stock_route
    (found_after 47 (byte ∷ rest) _ stock_route (found_by_parameter byte rest stock_route slash other))))))))

pub ticket_found : (byte : ℕ) (rest : List ℕ) → has_slash (byte ∷ rest) ≡ false → (param_token == byte) ≡ false
    → route_of (codes "/ticket/" ++ byte ∷ rest) ≡ Some ticket_route
ticket_found byte rest slash other =
    on_listed (codes "/ticket/" ++ byte ∷ rest) ticket_route
    (found_after 47 (codes "ticket/" ++ byte ∷ rest) listed ticket_route
    (found_after 116 (codes "icket/" ++ byte ∷ rest) _ ticket_route
    (found_after 105 (codes "cket/" ++ byte ∷ rest) _ ticket_route
    (found_after 99 (codes "ket/" ++ byte ∷ rest) _ ticket_route
    (found_after 107 (codes "et/" ++ byte ∷ rest) _ ticket_route
    (found_after 101 (codes "t/" ++ byte ∷ rest) _ ticket_route
    (found_after 116 (codes "/" ++ byte ∷ rest) _ ticket_route
    (found_after 47 (byte ∷ rest) _ ticket_route (found_by_parameter byte rest ticket_route slash other)))))))))

-- What a request asks of the desk: the first of 404, 405, 400, and an ask.
use Rattle.std.specs.Prelude.{◌≡◌, ◌≢◌, ℕ, if◌then◌else◌, List, codes, Option, Some, None}
use Rattle.std.specs.Str.{bytes_eq}
use Rattle.farm_history.specs.declared.ask.Ask.{Ask}
use Rattle.farm_history.specs.declared.ask.Ask.TheVariants as asks
use Rattle.farm_history.specs.declared.query.Query.{Query}
use Rattle.farm_http.specs.declared.page.Allow.{Allow}
use Rattle.farm_http.specs.declared.page.Allow.TheVariants as methods
use Rattle.farm_http.specs.Requests.{ask_of_posted}
use Rattle.http_heads.specs.Limits.{bad_request}
use Rattle.http_requests.specs.Limits.{method_not_allowed, not_found}
use Rattle.http_requests.specs.declared.asked.Asked.{Asked}
use Rattle.http_requests.specs.declared.asked.Asked.TheVariants as answers
use Rattle.http_requests.specs.declared.resource.Resource.{Resource}
use Rattle.http_requests.specs.declared.resource.Resource.TheVariants.{Command, Look}
use Rattle.http_requests.specs.declared.word.Word.{Word}
use Rattle.http_requests.specs.Routes.{text_of}
use Rattle.http_requests.specs.Paths.{IsPathOf, path_of, resource_of}

-- the method of what a path names
abbrev pub method_of : Resource → Allow
method_of (Command word) = methods.Post
method_of (Look query) = methods.Get

-- the name of a method, whose letters have their case (RFC 9110, section 9.1)
abbrev pub name_of : Allow → List ℕ
name_of methods.Post = codes "POST"
name_of methods.Get = codes "GET"

-- what a body asks for, or 400
abbrev pub ask_or_bad : Option Ask → Asked
ask_or_bad (Some ask) = answers.Ask ask
ask_or_bad None = answers.Bad bad_request None

-- what a body asks of what a path names; a look-up doesn't look at it
unfoldable pub asked_by : Resource → List ℕ → Asked
asked_by (Command word) body = ask_or_bad (ask_of_posted (text_of word) body)
asked_by (Look query) body = answers.Ask (asks.Look query)

-- what a method and a body ask of what a path names: 404 if it names nothing, then 405 if it has another method
unfoldable pub asked_on : Option Resource → List ℕ → List ℕ → Asked
asked_on None method body = answers.Bad not_found None
asked_on (Some resource) method body =
    if bytes_eq method (name_of (method_of resource)) then asked_by resource body
    else answers.Bad method_not_allowed (Some (method_of resource))

-- what a request asks
unfoldable pub asked_of : List ℕ → List ℕ → List ℕ → Asked
asked_of method target body = asked_on (resource_of (path_of target)) method body

-- the same in words: of these the first that holds
pub data IsAskedOf (method target body : List ℕ) (asked : Asked) : Type 0 where
  nowhere :
      asked ≡ answers.Bad 404 None → ((resource : Resource) → ¬ (IsPathOf (path_of target) resource))
      → IsAskedOf method target body asked
  other_method :
      (resource : Resource) → asked ≡ answers.Bad 405 (Some (method_of resource)) → IsPathOf (path_of target) resource
      → method ≢ name_of (method_of resource) → IsAskedOf method target body asked
  bad_body :
      (word : Word) → asked ≡ answers.Bad 400 None → IsPathOf (path_of target) (Command word) → method ≡ codes "POST"
      → ask_of_posted (text_of word) body ≡ None → IsAskedOf method target body asked
  command :
      (word : Word) (ask : Ask) → asked ≡ answers.Ask ask → IsPathOf (path_of target) (Command word) → method ≡ codes "POST"
      → ask_of_posted (text_of word) body ≡ Some ask → IsAskedOf method target body asked
  look_up :
      (query : Query) → asked ≡ answers.Ask (asks.Look query) → IsPathOf (path_of target) (Look query) → method ≡ codes "GET"
      → IsAskedOf method target body asked

-- what a request asks is the first that holds
abbrev pub AskedIsFirst : Type 0
AskedIsFirst = (method target body : List ℕ) → IsAskedOf method target body (asked_of method target body)
